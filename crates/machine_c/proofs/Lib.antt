mod Answered
mod AsBox
mod Buffers
mod Fields
mod NextSteps
mod Played
