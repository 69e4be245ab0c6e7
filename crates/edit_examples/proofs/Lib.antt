mod Computing
mod Taking
mod Prims
mod Values
mod Metadata
mod Fields
mod Batches
