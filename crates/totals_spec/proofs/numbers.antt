-- Powers of two, bit lengths, signed numbers.
pub mod Bits
pub mod LowestAndHighestBit
pub mod Powers
pub mod SignedNumbers
