-- The bytes that the copier of this number asks to have written.
use Rattle.std.proofs.Common.{◌≡◌, refl, sym, ap, ◌∙◌, length, Some, None, slice_get}
use Rattle.std.specs.List.{position_or_len}
use Rattle.std.proofs.lemmas.Option.{slice_get_past, slice_get_read}
use Rattle.blocking_world_copiers.specs.Assemblies.{Assembled, bytes_to_copy, bytes_to_come}
use Rattle.blocking_world_copiers.specs.Copiers.{copier_at, has_number}
use Rattle.blocking_world_copiers.specs.contracts.assembly.Assembly.{the_view}
use Rattle.blocking_world_copiers.proofs.Places.{found_is}
use Rattle.blocking_world_copiers.proofs.assembly.Assembly.bytes_to_come.Goals as goal

pub returns-in-Some : goal.returns-in-Some
returns-in-Some c =
    let w = the_view c.self.inside in
    let at : c.place_at-place.result ≡ position_or_len (has_number c.in-Copy.number) w.copiers =
    c.place_at-place.ensures
    ∙ ap (position_or_len (has_number c.in-Copy.number)) c.deref.ensures.value in
    let there : slice_get w.copiers c.place_at-place.result ≡ Some c.in-Some.copier.now =
    rw (← c.deref-in-Copy.ensures.value) (slice_get_read c.deref-in-Copy.result.now
    (length c.deref-in-Copy.result.now) c.place_at-place.result c.in-Some.copier.now refl
    c.in-Some.ensures.lookup.3.0 c.in-Some.ensures.lookup.1) in
    let found : copier_at c.in-Copy.number w.copiers ≡ Some c.in-Some.copier.now =
    sym (found_is c.in-Copy.number w.copiers) ∙ ap (slice_get w.copiers) (sym at) ∙ there in
    c.bytes_to_write.ensures ∙ sym (ap bytes_to_copy found) ∙ ap
    (λ (v : Assembled). bytes_to_copy (copier_at c.in-Copy.number v.copiers)) c.self.view_is
    ∙ sym (ap (bytes_to_come c.args.self.now) c.in-Copy.is)

pub returns-in-None : goal.returns-in-None
returns-in-None c =
    let w = the_view c.self.inside in
    let at : c.place_at-place.result ≡ position_or_len (has_number c.in-Copy.number) w.copiers =
    c.place_at-place.ensures
    ∙ ap (position_or_len (has_number c.in-Copy.number)) c.deref.ensures.value in
    let none : slice_get w.copiers c.place_at-place.result ≡ None =
    rw (← c.deref-in-Copy.ensures.value) (slice_get_past c.deref-in-Copy.result.now
    c.place_at-place.result c.in-None.ensures.lookup.3) in
    let found : copier_at c.in-Copy.number w.copiers ≡ None =
    sym (found_is c.in-Copy.number w.copiers) ∙ ap (slice_get w.copiers) (sym at) ∙ none in
    sym (ap bytes_to_copy found) ∙ ap
    (λ (v : Assembled). bytes_to_copy (copier_at c.in-Copy.number v.copiers)) c.self.view_is
    ∙ sym (ap (bytes_to_come c.args.self.now) c.in-Copy.is)
