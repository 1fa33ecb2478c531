mod Allowed
mod Cuts
mod Found
mod Numbers
mod Readings
mod Settings
