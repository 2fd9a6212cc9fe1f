mod AnswerLemmas
mod LineLemmas
mod ReadLemmas
