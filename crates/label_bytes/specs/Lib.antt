-- The bytes of labels: characters by RFC 3629, what a label is made of, and its shortened form.
pub mod Characters
pub mod Label
pub mod inner
