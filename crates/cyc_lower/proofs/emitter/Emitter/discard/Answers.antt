use Rattle.std.proofs.lemmas.Result.{on_ok_weaker}
use Rattle.cyc_types.specs.TypedTreeView.{view_dereference}
use Rattle.cyc_lower.specs.inside.Emission.{view_starts}
use Rattle.cyc_lower.proofs.emission.ExpressionEmitting.{made_discarded, made_stored_only, room_for_right}
use Rattle.cyc_lower.proofs.emitter.Emitter.discard.Goals as goal

pub returns-in-Call : goal.returns-in-Call
returns-in-Call c =
    on_ok_weaker c.discard_call.result
    (made_discarded (view_starts c.args.starts.now) c.args.value.now c.in-Call.callee c.in-Call.arguments c.in-Call.result c.deref.result.now c.args.self.now.code.items c.discard_call.new.self.code.items c.args.free c.in-Call.is c.deref.ensures.value)
    c.discard_call.ensures

pub store-requires : goal.store-requires
store-requires c =
    room_for_right (view_starts c.args.starts.now) (view_dereference c.deref-in-Store.result.now) c.args.self.now.code.items c.take_address.new.self.code.items c.args.free c.requires c.in_ok-take_address-in-Store.ensures

pub returns-in_ok-store-in-Store : goal.returns-in_ok-store-in-Store
returns-in_ok-store-in-Store c =
    made_stored_only (view_starts c.args.starts.now) c.args.value.now c.in-Store.target c.in-Store.value c.in-Store.result c.in-Store.is c.deref-in-Store.result.now c.deref-in-Store.ensures c.deref-in-Store-2.result.now c.deref-in-Store-2.ensures c.args.self.now.code.items c.take_address.new.self.code.items c.store.new.self.code.items c.args.free
    c.in_ok-take_address-in-Store.ensures c.in_ok-store-in-Store.ensures.1
