mod HeldWalk
mod Loops
mod Walks
mod Spots
mod MasterLoops
mod Jobs
mod LineOfKnownJobs
