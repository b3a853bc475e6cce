-- Valid formats, what encodings stand for, and named biases.
pub mod DecodedBack
pub mod Encodable
pub mod ExponentRange
pub mod KindValues
pub mod NamedBias
pub mod NumbersInOrder
pub mod Valid
