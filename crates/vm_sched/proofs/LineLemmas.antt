-- Lemmas on scripts that are made by hand: one more line of the last process, which is a raw one.
use Rattle.std.proofs.Common.{◌≡◌, ℕ, ◌≤◌, ◌<◌, ◌+◌, ◌^◌, List, [], ◌∷◌, ◌++◌, Option, Some, All, length, refl, sym, subst, ap, arith, ◌∙◌}
use Rattle.std.specs.Option.{option_to_list}
use Rattle.std.specs.Prelude.{IfSome}
use Rattle.std.proofs.lemmas.List.{length_push}
use Rattle.std.proofs.lemmas.List.Elements.{All-push, All-pop}
use Rattle.v4l_const.specs.declared.model.Model.{Model}
use Rattle.vm_guest.specs.Orderly.{IsFitKind, IsFitProcess}
use Rattle.vm_guest.specs.Raw.{IsFitRaw}
use Rattle.vm_realm.specs.Sound.{CanRun, FitsOpened, IsRefused, IsRunnable, OpenInOrder}
use Rattle.vm_script.specs.Reading.{opens}
use Rattle.vm_script.specs.Script.{ProcessLines}
use Rattle.vm_script.specs.declared.line.Line.{Line}
use Rattle.vm_script.specs.declared.line.LineKind.{LineKind}
use Rattle.vm_script.specs.declared.line.LineKind.TheVariants.{Raw}
use Rattle.vm_script.specs.declared.line.RawChain.{RawChain}

-- behind lines that open in order a raw one may stand
order_push : (k : ℕ) (ls : List Line) (l : Line) (chain : RawChain) → OpenInOrder k ls → l.what ≡ Raw chain → l.number < 2 ^ 32 → OpenInOrder k (ls ++ l ∷ [])
order_push k [] l chain order is small = (subst (FitsOpened k) (sym is) tt, small, tt)
order_push k (x ∷ ls) l chain order is small =
    (order.0, order.1, order_push (k + opens x.what) ls l chain order.2 is small)

fits_push : (p : ProcessLines) (l : Line) (chain : RawChain) → IsFitProcess p → length p.lines < 100 → IsFitRaw chain → l.what ≡ Raw chain → IsFitProcess (record p { lines = p.lines ++ l ∷ [] })
fits_push p l chain fit few fits is = record {
  limit = omega (arith, length_push p.lines l);
  named = omega (arith, length_push p.lines l, fit.named);
  each = All-push (λ (l : Line). IsFitKind (length p.handles) l.what) p.lines l fit.each (subst (IsFitKind (length p.handles)) (sym is) fits);
}

one_more : (m : Model) (ps : List ProcessLines) (p : ProcessLines) (l : Line) (chain : RawChain) → length ps + 1 ≤ 16 → All IsFitProcess ps × IsFitProcess p → All (λ (p : ProcessLines). All (λ (l : Line). CanRun l.what) p.lines) ps × All (λ (l : Line). CanRun l.what) p.lines → All (λ (p : ProcessLines). OpenInOrder 0 p.lines) ps × OpenInOrder 0 p.lines → length p.lines < 100 → IsFitRaw chain → IsRefused chain → l.what ≡ Raw chain → l.number < 2 ^ 32 → IsRunnable (record { model = m; processes = ps ++ (record p { lines = p.lines ++ l ∷ [] }) ∷ [] })
one_more m ps p l chain room fit each order few fits refused is small =
    let q : ProcessLines = record p { lines = p.lines ++ l ∷ [] } in record {
      fit = record {
        few = omega (arith, length_push ps q, room);
        each = All-push IsFitProcess ps q fit.0 (fits_push p l chain fit.1 few fits is);
      };
      each = All-push (λ (p : ProcessLines). All (λ (l : Line). CanRun l.what) p.lines) ps q each.0
          (All-push (λ (l : Line). CanRun l.what) p.lines l each.1 (subst CanRun (sym is) refused));
      opens = All-push (λ (p : ProcessLines). OpenInOrder 0 p.lines) ps q order.0 (order_push 0 p.lines l chain order.1 is small);
    }

-- the last process is taken out of the script, and put back with the line
pub raw_runnable : (m : Model) (all ps : List ProcessLines) (r : Option ProcessLines) (p : ProcessLines) (lines : List Line) (chain : RawChain) → IsRunnable (record { model = m; processes = all }) → all ≡ ps ++ option_to_list r → r ≡ Some p → length p.lines < 100 → IsFitRaw chain → IsRefused chain → ((l : Line) × (l.what ≡ Raw chain) × (l.number < 2 ^ 32) × (lines ≡ p.lines ++ l ∷ [])) → IsRunnable (record { model = m; processes = ps ++ (record { handles = p.handles; lines = lines }) ∷ [] })
raw_runnable m all ps r p lines chain run parts is few fits refused more =
    let Fit : ProcessLines → Type 0 = IsFitProcess in
    let Runs : ProcessLines → Type 0 = λ p. All (λ (l : Line). CanRun l.what) p.lines in
    let Opens : ProcessLines → Type 0 = λ p. OpenInOrder 0 p.lines in
    let with_last : all ≡ ps ++ p ∷ [] = parts ∙ ap (λ o. ps ++ option_to_list o) is in
    let some : (P : ProcessLines → Type 0) → All P all → All P ps × P p = λ P x. All-pop P all ps (Some p) with_last x in
    let room : length ps + 1 ≤ 16 = omega (arith, length_push ps p, ap (λ xs. length xs) with_last, run.fit.few) in
    subst (λ (ls : List Line). IsRunnable (record { model = m; processes = ps ++ (record { handles = p.handles; lines = ls }) ∷ [] })) (sym more.3)
    (one_more m ps p more.0 chain room (some Fit run.fit.each) (some Runs run.each) (some Opens run.opens) few fits refused more.1 more.2)
