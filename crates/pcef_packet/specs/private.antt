pub mod PackedHeaders
