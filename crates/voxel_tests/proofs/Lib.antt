mod LiveSlots
mod OneOrTwo
