-- What the calls answer is told whole: a result is had back from the numbers. And what a refusal says of the number that refused.
--     nonzero     a number that is a refusal's is not that of success
-- Assumes nothing.
use Rattle.std.proofs.Common.{◌≡◌, ℕ, refl, sym, ap, ap₂, arith, Result, Ok, Err}
use Rattle.words.specs.declared.refusals.Refusal.{Refusal}
use Rattle.words.specs.Refusals.{number_of}
use Rattle.words.proofs.RefusalsTold.{some, numbers}
use Rattle.single.specs.declared.calls.Made.{Made}
use Rattle.single.specs.declared.SingleKey.{SingleKey}
use Rattle.single.specs.declared.pairs.KeyPair as pair
use Rattle.single.specs.Bare.{Share, told_share}
use Rattle.single.specs.Calls.{Generated, told}
use Rattle.single.specs.Pairs as pairs
use Rattle.single.specs.Promises.{AnswersTold}

pub nonzero : (e : Refusal) {n : ℕ} → number_of e ≡ n → n ≡ 0 → ⊥
nonzero e is none = omega (arith, some e)

made_whole : (r s : Result Made Refusal) → told r ≡ told s → r ≡ s
made_whole (Ok a) (Ok b) p = ap₂ {A = ℕ} {B = ℕ} (λ n m. Ok (record { length = n; words = m })) (ap (λ (g : Generated). g.length) p) (ap (λ (g : Generated). g.words) p)
made_whole (Ok a) (Err e) p = absurd (nonzero e (sym (ap (λ (g : Generated). g.number) p)) refl)
made_whole (Err d) (Ok b) p = absurd (nonzero d (ap (λ (g : Generated). g.number) p) refl)
made_whole (Err d) (Err e) p = ap Err (numbers d e (ap (λ (g : Generated). g.number) p))

share_whole : (r s : Result ℕ Refusal) → told_share r ≡ told_share s → r ≡ s
share_whole (Ok a) (Ok b) p = ap (λ (g : Share). Ok g.share) p
share_whole (Ok a) (Err e) p = absurd (nonzero e (sym (ap (λ (g : Share). g.number) p)) refl)
share_whole (Err d) (Ok b) p = absurd (nonzero d (ap (λ (g : Share). g.number) p) refl)
share_whole (Err d) (Err e) p = ap Err (numbers d e (ap (λ (g : Share). g.number) p))

pair_whole : (r s : Result pair.KeyPair Refusal) → pairs.told r ≡ pairs.told s → r ≡ s
pair_whole (Ok a) (Ok b) p =
    ap₂ {A = SingleKey} {B = SingleKey} (λ k l. Ok (record { key0 = k; key1 = l })) (ap (λ (g : pairs.KeyPair). g.key0) p) (ap (λ (g : pairs.KeyPair). g.key1) p)
pair_whole (Ok a) (Err e) p = absurd (nonzero e (sym (ap (λ (g : pairs.KeyPair). g.number) p)) refl)
pair_whole (Err d) (Ok b) p = absurd (nonzero d (ap (λ (g : pairs.KeyPair). g.number) p) refl)
pair_whole (Err d) (Err e) p = ap Err (numbers d e (ap (λ (g : pairs.KeyPair). g.number) p))

pub answers_told : AnswersTold
answers_told = record { making = made_whole; one_cell = share_whole; pair = pair_whole }
