pub mod CrossingLaws
