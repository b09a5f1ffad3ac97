pub mod FaultAnswers
pub mod RefusalAnswers
pub mod ReportAnswers
pub mod ShowAnswers
pub mod StepAnswers
pub mod Written
