-- What the cases keep of their store.
pub mod Ready
