-- What the code holds on its way: inner contracts alone cite this, and nobody has to believe it.
pub mod Working
