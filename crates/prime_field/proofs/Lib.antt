pub mod SmallProducts
