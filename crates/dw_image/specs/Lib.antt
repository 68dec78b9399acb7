-- Chapters, in reading order.
pub mod Headline
pub mod Valid
pub mod FirstFault
pub mod GroupsBefore
pub mod Lookups
pub mod Images
-- What dw_links says of declarations, numbers and strings, for the crates above.
pub use Rattle.dw_links.specs.References
pub use Rattle.dw_links.specs.Constants
pub use Rattle.dw_links.specs.Contributions
pub use Rattle.dw_links.specs.Slots
pub use Rattle.dw_links.specs.StringSpans
pub use Rattle.dw_links.specs.ValueTexts
-- State.
pub mod StepsAndSizes
