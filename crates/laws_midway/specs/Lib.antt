pub mod CutLaws
pub mod DroppedLaws
pub mod FoundLaws
pub mod GrowingLaws
pub mod LineHintLaws
pub mod LoopLaws
pub mod MadeLaws
pub mod RoomLaws
