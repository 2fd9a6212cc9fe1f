mod ReadingLemmas
mod Shown
