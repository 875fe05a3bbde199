pub mod MoveLawProofs
pub mod CallLawProofs
pub mod RefusalLawProofs
pub mod ReasonLawProofs
pub mod CauseLawProofs
pub mod ObjectLawProofs
pub mod ObjectStepProofs
pub mod LabelLawProofs
