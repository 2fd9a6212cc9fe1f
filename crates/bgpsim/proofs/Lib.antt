mod ProgramRuns
