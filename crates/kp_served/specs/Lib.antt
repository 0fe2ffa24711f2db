pub mod HomeNodes
pub mod HomeLaws
