-- `lookup::fetch` meets its contract: it is what the definition makes of the longest match.
-- Assumes nothing.
use mathlib.Core.Path.{◌≡◌, sym}
use borrow.Author.Rules.{rules}
use Rattle.std.specs.Prelude.{Err}
use Rattle.lookup.specs.Fetching.{found_by}
use Rattle.lookup.proofs.FetchingLaws.{fetch-promise, fetch_on-refused, fetch_on-found}
use Rattle.lookup.proofs.fetch.Goals as goal

pub returns-in_err-x : goal.returns-in_err-x
returns-in_err-x c =
    let e : c.from_residual.result ≡ Err c.in_err-x.field-0.0 = search rules in
    rw e (fetch-promise _ _ _ _ _ (fetch_on-refused _ _ _ _ _ c.in_err-x.ensures.answer))

-- The mapped number, or Absent, is what the definition makes of the number.
pub returns : goal.returns
returns c =
    let e : c.ok_or.result ≡ found_by c.in_ok-x.x.nodes c.stored_at.result = search rules in
    rw e (fetch-promise _ _ _ _ _ (fetch_on-found _ _ _ _ _ c.in_ok-x.ensures.answer _ (sym c.stored_at.ensures)))
