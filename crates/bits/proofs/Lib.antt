pub mod ListsLaws
pub mod BitsLaws
pub mod MeetLaws
pub mod RisingLaws
pub mod BlankLaws
pub mod NumbersLaws
pub mod PartingLaws
pub mod ValueLaws
