pub mod Accepted
pub mod EsmodLaws
pub mod HopsLaws
