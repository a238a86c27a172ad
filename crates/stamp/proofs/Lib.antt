pub mod StampLaws
