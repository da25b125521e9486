mod DrawingLemmas
mod GoingLemmas
mod PollLemmas
