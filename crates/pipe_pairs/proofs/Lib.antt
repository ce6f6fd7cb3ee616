pub mod KeyNames
