-- A plan: what an edit will write.
-- Paper 00, demand 3: "An accepted edit changes at most three node records besides the header".
--   Write     a record and where it goes; at link 0, nowhere
--   Hung      what hanging a link comes to: the top link that will stand, and the node that the link hangs from
--   Plan      the header that will stand, and at most three records with their places
-- Assumes nothing.
use Rattle.std.specs.Prelude.{ℕ}
use Rattle.records.specs.declared.Record.{Record}
use Rattle.records.specs.declared.Header.{Header}

pub record Write : Type 0 where
  pub link : ℕ
  pub content : Record

pub record Hung : Type 0 where
  pub root : ℕ
  pub one : Write

pub record Plan : Type 0 where
  pub header : Header
  pub one : Write
  pub two : Write
  pub three : Write
