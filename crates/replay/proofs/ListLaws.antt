-- Laws of what comparing a slice shows.
--     compared     where what is asked for is what is wanted and given, so is what comparing shows
-- Assumes nothing.
use mathlib.Core.Path.{◌≡◌, sym, ◌∙◌}
use mathlib.Core.Logic.{inl, inr}
use mathlib.Core.List.{List}
use Prim.Native.Nat.{ℕ}
use lib.ListN.{length, get_or}
use Rattle.replay.specs.Lists.{Account, Compared, ComparedBy}

pub compared : (a r : Account) (n : ℕ) (given : List ℕ) (wanted : ℕ → ℕ) {Wanted Given : ℕ → ℕ → Type 0}
    → ((k x : ℕ) → Wanted k x → x ≡ wanted k) → ((k x : ℕ) → Given k x → x ≡ get_or given k 0)
    → ComparedBy a r n (length given) Wanted Given → Compared a r n given wanted
compared a r n given wanted is_wanted is_given (inl e) = inl e
compared a r n given wanted is_wanted is_given (inr (e, enough, alike)) =
    inr (
      e,
      enough,
      λ k inside.
          let (x, w, g) = alike k inside in
          sym (is_given k x g) ∙ is_wanted k x w,
    )
