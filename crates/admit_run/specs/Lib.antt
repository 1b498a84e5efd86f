pub mod Small
pub mod Text
