pub mod CallBytesLemmas
pub mod CallOrdersLemmas
pub mod DesksLemmas
pub mod BooksLemmas
