mod Paid
mod Listing
mod Heads
mod Table
mod Gathering
