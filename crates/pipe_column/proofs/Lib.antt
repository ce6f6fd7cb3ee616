pub mod AllThere
pub mod Parts
pub mod Nullables
pub mod Texts
pub mod Pieces
pub mod SeriesCells
pub mod Sizes
pub mod NativeBytes
