pub mod Inside
pub mod Items
pub mod Laws
pub mod Others
pub mod Walks
pub mod Judged
