pub mod Memory
pub mod Records
pub mod UnderWay
pub mod KernelFits
pub mod KeepLaws
pub mod FollowLaws
pub mod StartLaws
