pub mod Stages
pub mod Staged
pub mod Fitting
pub mod Trailing
pub mod Wordy
pub mod Sound
