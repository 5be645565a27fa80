-- The text of a table, byte by byte.
use Rattle.std.specs.Prelude.{ℕ, Bool, List, [], ◌∷◌, ◌++◌, length, Some, None, codes, decimal, Option, if◌then◌else◌}
use Rattle.std.specs.List.{slice_get}
use Rattle.theory.specs.Lists.{count_of, up_from, each}
use Rattle.theory.specs.Roles.{is_simple, is_unsafe}
use Rattle.theory.specs.Table.{Axiom, Table, sub_role, sub_inverse, transitive, conjunction, nominal, filler, at_most_one, exists, range, has_value, open_concept, open_role, has_form}
use Rattle.layout.specs.Checking.{Outcome, accepted, refused, checked}
use Rattle.layout.specs.Refusals as layout
use Rattle.layout.specs.declared.refusal.Refusal.{Refusal}
use Rattle.names.specs.Naming.{concept_text, role_text, individual_text}

abbrev pub newline : List ℕ
newline = 10 ∷ []

abbrev pub axiom_text : Axiom → List ℕ
axiom_text (sub_role p q) = role_text p ++ (codes " <= " ++ role_text q)
axiom_text (sub_inverse p q) = role_text p ++ (codes " <= inverse " ++ role_text q)
axiom_text (transitive p) = role_text p ++ codes " transitive"
axiom_text (conjunction p q r s) =
    concept_text p ++ (codes " & " ++ (concept_text q ++ (codes " & " ++ (concept_text r ++ (codes " <= " ++ concept_text s)))))
axiom_text (nominal p q) = concept_text p ++ (codes " <= {" ++ (individual_text q ++ codes "}"))
axiom_text (filler p q r) = codes "some " ++ (role_text p ++ (codes " " ++ (concept_text q ++ (codes " <= " ++ concept_text r))))
axiom_text (at_most_one p q r) = concept_text p ++ (codes " <= at most 1 " ++ (role_text q ++ (codes " " ++ concept_text r)))
axiom_text (exists p q r) = concept_text p ++ (codes " <= some " ++ (role_text q ++ (codes " " ++ concept_text r)))
axiom_text (range p q) = codes "range " ++ (role_text p ++ (codes " <= " ++ concept_text q))
axiom_text (has_value p q r) = concept_text p ++ (codes " <= some " ++ (role_text q ++ (codes " {" ++ (individual_text r ++ codes "}"))))
axiom_text (open_concept p) = concept_text p ++ codes " open"
axiom_text (open_role p) = role_text p ++ codes " open"

-- what follows an unsafe axiom
abbrev pub unsafe_text : Bool → List ℕ
unsafe_text b = if b then codes " (unsafe)" else []

-- the line of an axiom, with its number
abbrev pub axiom_line : ℕ → Bool → Axiom → List ℕ
axiom_line k u a = codes "axiom " ++ (decimal k ++ (codes ": " ++ (axiom_text a ++ (unsafe_text u ++ newline))))

abbrev pub line_or : ℕ → Bool → Option Axiom → List ℕ
line_or k u None = []
line_or k u (Some a) = axiom_line k u a

-- the line of axiom k
abbrev pub line_text : Table → ℕ → List ℕ
line_text t k = line_or k (is_unsafe t k) (slice_get t.axioms k)

abbrev pub lines_text : Table → List ℕ
lines_text t = each (line_text t) (up_from 0 (length t.axioms))

abbrev pub sizes_text : Table → List ℕ
sizes_text t =
    decimal t.concepts
    ++ (codes " concepts, " ++ (decimal t.roles ++ (codes " roles, " ++ (decimal t.individuals ++ (codes " individuals, " ++ (decimal (length t.axioms) ++ (codes " axioms" ++ newline)))))))

-- s of r roles are simple, and u of w axioms that ask for a witness are unsafe
abbrev pub counts_line : ℕ → ℕ → ℕ → ℕ → List ℕ
counts_line s r u w =
    codes "checked: "
    ++ (decimal s ++ (codes " of " ++ (decimal r ++ (codes " roles simple, " ++ (decimal u ++ (codes " of " ++ (decimal w ++ (codes " witness axioms unsafe" ++ newline))))))))

abbrev pub counts_text : Table → List ℕ
counts_text t =
    counts_line (count_of (is_simple t) (up_from 0 t.roles)) t.roles (count_of (is_unsafe t) (up_from 0 (length t.axioms))) (count_of (has_form 8) t.axioms)

abbrev pub table_text : Table → List ℕ
table_text t = sizes_text t ++ (lines_text t ++ counts_text t)

abbrev pub refusal_text : Refusal → List ℕ
refusal_text f = layout.refusal_text f ++ newline

abbrev pub outcome_text : Outcome → List ℕ
outcome_text (accepted t) = table_text t
outcome_text (refused f) = refusal_text f

-- what inspecting bytes shows
abbrev pub inspected : List ℕ → List ℕ
inspected bs = outcome_text (checked bs)
