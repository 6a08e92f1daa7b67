pub mod OneConstant
