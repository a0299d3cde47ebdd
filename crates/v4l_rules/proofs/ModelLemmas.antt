-- What holds of each model.
use Rattle.std.proofs.Common.{◌≡◌, ◌∙◌, ap, subst, ℕ, ◌<◌, ◌≤◌, List, Option, Some, length, replicate, refl, lit≤, lit<}
use Rattle.std.specs.Option.{unwrap_or}
use Rattle.std.proofs.lemmas.Option.{none-some}
use Rattle.v4l_const.specs.declared.model.Model.{Model}
use Rattle.v4l_const.specs.declared.model.Model.TheVariants.{Capture, Convert}
use Rattle.v4l_const.specs.Model.{queues as types_of, source_queue, picture_queue}
use Rattle.v4l_rules.specs.Queues.{QueueKind, place_in, opening_queues}

pub types_most : (m : Model) → length (types_of m) ≤ 2
types_most Capture = lit≤ tt
types_most Convert = lit≤ tt

pub queues_begin : {Q : Type 0} (kind : QueueKind Q) (m : Model) → replicate (length (types_of m)) kind.opening ≡ opening_queues kind m
queues_begin kind Capture = refl
queues_begin kind Convert = refl

-- a model has the queues that it names
pub has_source : (m : Model) (t : ℕ) → source_queue m ≡ Some t → place_in (types_of m) t < length (types_of m)
has_source Capture t named = absurd (none-some t named)
has_source Convert t named =
    let P : ℕ → Type 0 = λ u. place_in (types_of Convert) u < length (types_of Convert) in
    subst P (ap (λ (o : Option ℕ). unwrap_or o 0) named) (lit< tt)

pub has_target : (m : Model) → place_in (types_of m) (picture_queue m) < length (types_of m)
has_target Capture = lit< tt
has_target Convert = lit< tt

pub source_within : (m n : Model) (types : List ℕ) (t p k : ℕ) → m ≡ n → types ≡ types_of m → p ≡ place_in types t → k ≡ length (types_of m) →
    source_queue n ≡ Some t → p < k
source_within m n types t p k same these place all named =
    let h : source_queue m ≡ Some t = ap (λ (x : Model). source_queue x) same ∙ named in
    let at : p ≡ place_in (types_of m) t = place ∙ ap (λ us. place_in us t) these in
    rw (at, all) (has_source m t h)

pub target_within : (m : Model) (types : List ℕ) (t p k : ℕ) → types ≡ types_of m → t ≡ picture_queue m → p ≡ place_in types t →
    k ≡ length (types_of m) → p < k
target_within m types t p k these named place all =
    let at : p ≡ place_in (types_of m) (picture_queue m) = place ∙ (ap (λ us. place_in us t) these ∙ ap (λ u. place_in (types_of m) u) named) in
    rw (at, all) (has_target m)
