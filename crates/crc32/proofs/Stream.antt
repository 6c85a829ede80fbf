-- What the streaming calls promise together: the laws of specs/Laws.antt. Assumes nothing.
pub use Rattle.crc32.specs.Laws.{feed-feed, fresh-fed}
