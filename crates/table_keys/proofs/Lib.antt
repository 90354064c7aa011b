mod Framing
