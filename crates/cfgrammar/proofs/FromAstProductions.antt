-- How the productions of a tree are put one behind another.
use Rattle.std.proofs.Common.{◌≡◌, ℕ, suc, ◌+◌, Bool, List, [], ◌∷◌, ◌++◌, length, map, sym, ap, ◌∙◌, arith, append_assoc}
use Rattle.std.proofs.lemmas.List.{map-append, length-map}
use Rattle.cfg_theory.specs.Grammar.{Production}
use Rattle.cfg_read.specs.Asts.{Ast, ProductionAst}
use Rattle.cfgrammar.specs.FromAst.{file_head, file_body, file_productions, file_production_facts, added_production_facts}
use Rattle.cfgrammar.specs.AddedProductions.{Adds}
use Rattle.cfg_numbered.specs.Info.{production_of, production_facts}
use Rattle.cfg_numbered.specs.Value.{ProductionFacts}
use Rattle.cfg_numbered.specs.declared.yacc.info.ProductionInfo.{ProductionInfo}

-- one more production of the file
pub files_more : (implicit : Bool) (ast : Ast) (n : ℕ) (ps : List ProductionAst) (p : ProductionAst) (m : ℕ) → m ≡ n + length ps
    → file_productions implicit ast n (ps ++ p ∷ []) ≡ file_productions implicit ast n ps ++ record { head = file_head ast m; body = file_body implicit ast p } ∷ []
files_more implicit ast n [] p m e = ap (λ k. (let q : Production = record { head = file_head ast k; body = file_body implicit ast p } in q) ∷ []) (let z : n ≡ m = omega (arith, e) in z)
files_more implicit ast n (q ∷ ps) p m e = ap (λ l. (let x : Production = record { head = file_head ast n; body = file_body implicit ast q } in x) ∷ l) (files_more implicit ast (suc n) ps p m (omega (arith, e)))

-- as many are made as were gone through
pub made_count : {S P : Type 0} (view : P → ProductionAst) (ast : Ast) (made : List (ProductionInfo S)) (ps : List P) → map production_facts made ≡ map (file_production_facts ast) (map view ps) → length made ≡ length ps
made_count view ast made ps told = sym (length-map made production_facts) ∙ ap length told ∙ length-map (map view ps) (file_production_facts ast) ∙ length-map ps view

module _ {S : Type 0} (number : S → ℕ) where
  pub adds_more : (old mid new : List (ProductionInfo S)) (xs ys : List Production) → Adds number old mid xs → Adds number mid new ys → Adds number old new (xs ++ ys)
  adds_more old mid new xs ys h k = record {
    productions = k.productions ∙ ap (λ l. l ++ ys) h.productions ∙ append_assoc (map (production_of number) old) xs ys;
    facts = k.facts ∙ ap (λ l. l ++ map added_production_facts ys) h.facts ∙ append_assoc (map production_facts old) (map added_production_facts xs) (map added_production_facts ys)
        ∙ ap (λ l. map production_facts old ++ l) (sym (map-append added_production_facts xs ys));
  }

  -- one more production of the file is made
  pub file_made : (implicit : Bool) (ast : Ast) (old new : List (ProductionInfo S)) (made : ProductionInfo S) (front : List ProductionAst) (p : ProductionAst) (n index : ℕ) → new ≡ old ++ made ∷ [] → n ≡ length front → suc index ≡ file_head ast n
      → production_of number made ≡ record { head = suc index; body = file_body implicit ast p } → production_facts made ≡ file_production_facts ast p
      → map (production_of number) old ≡ file_productions implicit ast 0 front → map production_facts old ≡ map (file_production_facts ast) front
      → (map (production_of number) new ≡ file_productions implicit ast 0 (front ++ p ∷ [])) × (map production_facts new ≡ map (file_production_facts ast) (front ++ p ∷ []))
  file_made implicit ast old new made front p n index is count head production facts before told =
      let named : Production = record { head = file_head ast n; body = file_body implicit ast p } in
      let of_made : production_of number made ≡ named = production ∙ (λ i. record { head = head i; body = file_body implicit ast p }) in (
        ap (map (production_of number)) is
            ∙ map-append (production_of number) old (made ∷ [])
            ∙ ap (λ l. l ++ production_of number made ∷ []) before
            ∙ ap (λ (q : Production). file_productions implicit ast 0 front ++ q ∷ []) of_made
            ∙ sym (files_more implicit ast 0 front p n (omega (arith, count))),
        ap (map production_facts) is
            ∙ map-append production_facts old (made ∷ [])
            ∙ ap (λ l. l ++ production_facts made ∷ []) told
            ∙ ap (λ (f : ProductionFacts). map (file_production_facts ast) front ++ f ∷ []) facts
            ∙ sym (map-append (file_production_facts ast) front (p ∷ [])),
      )
