pub mod SuperBlob
pub mod CodeDirectory
pub mod TrustCache
pub mod MachO
