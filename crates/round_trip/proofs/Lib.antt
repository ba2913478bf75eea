mod CallLemmas
mod Common
mod OwnHeaders
mod TripLemmas
