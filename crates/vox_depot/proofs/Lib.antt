pub mod Loading
pub mod Results
pub mod Trees
