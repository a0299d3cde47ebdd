-- The chain of a process, and the tables of its raw lines.
use Rattle.std.proofs.Common.{◌≡◌, ℕ, List, [], ◌∷◌, map, refl, sym, ap, ◌∙◌, subst}
use Rattle.std.proofs.lemmas.List.{length-map}
use Rattle.vm_chain.specs.declared.desc.Desc.{Desc}
use Rattle.vm_link.specs.declared.parcel.Parcel.{Parcel}
use Rattle.vm_script.specs.declared.line.Line.{Line}
use Rattle.vm_guest.specs.Asking.{statement_of, statements_of}
use Rattle.vm_guest.specs.Chain.{IsChain, IsOwn, IsHome, chain_table}
use Rattle.vm_guest.specs.Orderly.{HasTables, table_for}
use Rattle.vm_guest.specs.declared.asked.Statement.{Statement}

-- a chain that is at home is the process's own
pub own_home : (p : ℕ) (parcel : Parcel) → IsHome p parcel → IsOwn p parcel
own_home p parcel home =
    let none : parcel.held ≡ [] = ap (λ (x : Parcel). x.held) home.1.is in
    (home.0, subst (λ held. IsChain p (chain_table p home.0) [] held parcel) (sym none) home.1)

tables_mapped : (n : ℕ) (ls : List Line) → map (λ l. table_for n l.what) ls ≡ map (λ s. table_for n s.what) (statements_of ls)
tables_mapped n [] = refl
tables_mapped n (l ∷ ls) = ap (λ ts. table_for n l.what ∷ ts) (tables_mapped n ls)

-- each statement has its table before the first line
pub tables_ready : (n : ℕ) (ls : List Line) → HasTables n (statements_of ls) 0 (map (λ l. table_for n l.what) ls)
tables_ready n ls = (length-map ls (λ (l : Line). table_for n l.what) ∙ sym (length-map ls statement_of), tables_mapped n ls)

pub tables_fresh : (n : ℕ) (ls ls1 ls2 : List Line) (ss : List Statement) (tables : List (List Desc)) → ls1 ≡ ls → ls2 ≡ ls → ss ≡ statements_of ls1 → tables ≡ map (λ l. table_for n l.what) ls2 →
    HasTables n ss 0 tables
tables_fresh n ls ls1 ls2 ss tables one two are has =
    let made : ss ≡ statements_of ls = are ∙ ap (λ (xs : List Line). statements_of xs) one in
    let ready : tables ≡ map (λ l. table_for n l.what) ls = has ∙ ap (λ (xs : List Line). map (λ l. table_for n l.what) xs) two in
    subst (λ xs. HasTables n xs 0 tables) (sym made) (subst (λ ts. HasTables n (statements_of ls) 0 ts) (sym ready) (tables_ready n ls))
