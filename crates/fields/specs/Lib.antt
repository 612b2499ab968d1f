pub mod Faults
pub mod Cuts
pub mod Numbers
pub mod Lists
pub mod Laws
pub mod Written
