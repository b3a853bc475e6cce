-- What follows for a call, once its record is that of the definition.
mod Calls
mod Entered
mod Lent
mod Shown
mod Slots
mod Exacts
mod Written
mod Figures
mod Allowed
mod Reached
mod Enclosed
mod Aimed
mod Tabled
