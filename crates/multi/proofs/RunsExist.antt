-- A run over images that are all accepted takes each one: a table keeps its length, so the next is accepted too.
-- Assumes nothing.
use mathlib.Core.Path.{refl, ap, ◌∙◌}
use mathlib.Core.List.{List, [], ◌∷◌}
use Rattle.single.specs.Tables.{Call, after, taken}
use Rattle.single.proofs.TableSums.{length-after}
use Rattle.multi.specs.Promises.{RunsExist}

pub runs_exist : RunsExist
unfolding taken
runs_exist Image Posting answer w share_of image n room accepted [] t e = refl
runs_exist Image Posting answer w share_of image n room accepted (q ∷ ps) t e =
    let c : Call Image = record { image = image q; room = room } in
    rw (accepted q t e)
    (ap (λ (l : List Image). image q ∷ l)
    (runs_exist Image Posting answer w share_of image n room accepted ps (after answer w share_of c t)
    (length-after answer w share_of c t ∙ e)))
