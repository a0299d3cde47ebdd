pub mod CarrierLemmas
pub mod SpreadLemmas
