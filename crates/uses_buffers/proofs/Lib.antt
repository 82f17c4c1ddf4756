pub mod LoopLemmas
pub mod FormLemmas
pub mod Utf32Lemmas
pub mod Latin1Lemmas
pub mod Wtf8Lemmas
pub mod SeamLemmas
pub mod CutLemmas
pub mod ChunkLemmas
pub mod Wtf8StreamLemmas
pub mod ReadLemmas
mod CutsJoined
mod CutsStarts
mod Utf8Both
mod Utf8Cuts
mod Utf8Ends
mod Utf8Joined
mod BlockLaw
mod CallLemmas
mod StdLemmas
mod Utf16Rows
mod Utf16SplitRows
mod Utf8SplitRows
mod BomRows
mod EncoderRows
mod EditRows
mod ReplaceRows
