pub mod Nankai
