mod Among
mod Ended
pub mod ExactKeeping
mod ExampleRefusals
mod ExampleStates
mod Foremost
mod GoneOff
mod Grants
mod LeastIds
mod Order
mod Told
