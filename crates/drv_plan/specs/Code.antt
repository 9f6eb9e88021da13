-- How the code looks up pairs. Public contracts don't cite it.
pub mod Looking
