-- From a walk of code by hand to the contract that it meets. Rests on the kit's rule of walks.
use seplogic.Ra.Ura.{Ura}
use mir.Syntax.{Callee, Fn}
use prog.Model.{Model}
use prog.Routine.{Env as Table}
use prog.Wp.{WpFn, Closed}
use sound.WpLaws.{WpFn-mono}
use types.Logic.{Logic}
use contract.Running.{Running, tables, tables_of}
use denote.Triple.Statement.{Triple}
use denote.Triple.Clauses.{Ended, Clauses, closing}
use denote.Triple.Spec.{triple_of}
use denote.Triple.Table.{entered}
use denote.Triple.Walked.{Stays, Walks, AllGo, walk_Meets}

module _ {M : Type 1} {𝓤 : Ura M} (𝓛 : Logic 𝓤) (𝓜 : Model 𝓤 𝓛.H) (𝓡 : Running 𝓤 𝓛.H 𝓜)
    (T : Ended) (hs : Stays T.signature.params T.kept) (c : Clauses 𝓤 T) (γ : Table) (k : Callee) (fn : Fn) where
  open 𝓛 use {H}

  pub walk_spec : AllGo 𝓛 T.signature.lifetimes T.signature.params T.kept hs
      → Closed 𝓤 H (tables 𝓤 H 𝓜 𝓡 γ).C (tables 𝓤 H 𝓜 𝓡 γ).Λ k fn
      → (let 𝓣 = tables_of 𝓤 H 𝓜 (tables 𝓤 H 𝓜 𝓡 γ) in Walks 𝓛 T hs (WpFn 𝓤 H 𝓣.C 𝓣.Λ fn) c)
      → Triple 𝓤 ((tables 𝓤 H 𝓜 𝓡 γ).C k) (triple_of 𝓛 T.signature (closing 𝓛 T c))
  unfolding tables_of
  walk_spec goes closed walks =
      let 𝓣 = tables_of 𝓤 H 𝓜 (tables 𝓤 H 𝓜 𝓡 γ) in
      entered 𝓤 H (triple_of 𝓛 T.signature (closing 𝓛 T c)) (tables 𝓤 H 𝓜 𝓡 γ).C (tables 𝓤 H 𝓜 𝓡 γ).Λ k fn closed
      (walk_Meets 𝓛 T hs goes c (WpFn 𝓤 H 𝓣.C 𝓣.Λ fn) (WpFn-mono 𝓤 H 𝓛.laws 𝓣 fn) walks)
