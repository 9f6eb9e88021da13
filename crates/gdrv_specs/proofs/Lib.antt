mod Plans
mod Told
